-- What the program answers to a file, by the definitions of the crates below.
pub mod AnswerText
pub mod Promises
