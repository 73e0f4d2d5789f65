-- Laws of one end put into a ring; leaves first.
mod Ways
mod Search
