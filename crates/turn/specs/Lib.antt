-- The definitions that the contracts cite, then the laws of them.
pub mod Limits
pub mod Points
pub mod Angle
pub mod Area
pub mod Size
pub mod Directions
pub mod Rightward
pub mod Angular
pub mod First
pub mod PointOrder
pub mod Reasons
pub mod Refusals
pub mod Areas
pub mod Grids
pub mod Promises
