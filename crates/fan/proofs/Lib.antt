-- Laws of the sort and of the copy's parts; leaves first.
pub mod Turns
pub mod Moves
pub mod Parts
