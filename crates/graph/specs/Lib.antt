-- The definitions that the contracts cite, then what they mean.
pub mod Graph
pub mod Checks
pub mod Quick
pub mod Examples
pub mod Passes
pub mod PointLaws
pub mod Known
pub mod Tests
pub mod Total
pub mod Exact
pub mod Fine
pub mod Sound
pub mod Complete
pub mod EndLaws
pub mod BridgeLaws
pub mod Told
pub mod Promises
