-- What the proofs cite beside the laws of specs/.
mod Places
mod Whole
