-- What the program answers to what reading gave, by the definitions of the crates below.
pub mod ReadText
pub mod Promises
