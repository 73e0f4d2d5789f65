-- What the program answers to what a file says, by the definitions of the crates below.
pub mod FileText
pub mod Promises
