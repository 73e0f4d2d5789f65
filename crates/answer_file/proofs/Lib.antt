-- What the promise of reading comes to for the answer.
pub mod Fronts
