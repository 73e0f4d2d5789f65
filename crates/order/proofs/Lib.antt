-- What the proofs cite beside the laws of specs/.
mod Gathers
mod Insertions
