-- The definitions that the contracts cite, then the laws of them.
pub mod Anchor
pub mod AnchorChecks
pub mod Anchors
pub mod Anchored
pub mod Examples
pub mod Onward
pub mod LowestEdges
pub mod AnchorPositions
pub mod Anchoring
pub mod AnchorLaws
pub mod Promises
