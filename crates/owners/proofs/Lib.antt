-- What the proofs cite beside the laws of specs/.
mod Numbering
mod Gives
mod Searched
