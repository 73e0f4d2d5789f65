-- What the proofs cite beside the laws of specs/.
mod Parts
mod Offers
mod Same
