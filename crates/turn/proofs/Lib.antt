-- What the proofs cite beside the laws of specs/.
pub mod Operands
pub mod Sums
