-- What the program answers to a graph, by the definitions of the crates below.
pub mod GraphText
pub mod Promises
