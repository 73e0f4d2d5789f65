-- The room that is lent, as the checks read it, and what they answer.
pub mod Rooms
pub mod Looks
pub mod Promises
