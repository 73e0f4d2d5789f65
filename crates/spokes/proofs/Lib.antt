-- Laws of the ring's making; leaves first.
mod Orders
mod Lasts
mod Stores
mod Grows
mod Holds
mod Missed
mod Among
mod Steps
mod Crossings
