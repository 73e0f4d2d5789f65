-- The theorem and what leads to it, leaves first.
pub mod Sums
pub mod Theorem
pub mod Round
-- for what is lent
pub mod Demand
pub mod Answer
pub mod Decide
pub mod Examples
