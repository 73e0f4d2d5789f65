-- The laws, leaves first.
pub mod Test
pub mod Lowest
pub mod Fails
pub mod Int
pub mod Ring
pub mod Sign
pub mod Order
pub mod Bounds
pub mod Unique
pub mod Lists
pub mod Copies
pub mod Count
pub mod Compare
