-- What the proofs cite beside the laws of specs/.
pub mod SameColumns
pub mod Nodes
