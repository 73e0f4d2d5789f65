-- No contour has a spike; then what is true of dropping points on a straight line.
pub mod Spikes
pub mod Dropping
