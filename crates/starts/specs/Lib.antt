-- What the pass over the starts tells.
pub mod Odds
pub mod Promises
