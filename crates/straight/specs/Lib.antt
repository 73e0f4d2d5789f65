-- The rule, what it is made of, then what is true of it.
pub mod Straight
pub mod Examples
pub mod Bends
pub mod Corners
pub mod Areas
