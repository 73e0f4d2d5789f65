-- The theorems: where points stand, rounds, check 10, check 11, what extraction writes passes both; areas; lookups; and the worked examples.
pub mod Places
pub mod Rounds
pub mod Sizes
pub mod Anchors
pub mod Leads
pub mod Fit
pub mod Enclosed
pub mod Found
pub mod Worked
