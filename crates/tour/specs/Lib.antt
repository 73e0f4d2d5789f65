-- The statement, and what its proof in proofs/ rests on, leaves first.
pub mod Statement
-- ends round a node by turns, and a walk among them
pub mod Alternation
pub mod First
pub mod Ends
pub mod OneWalk
pub mod AllWalks
pub mod Around
pub mod Sums
-- what the theorem asks, and the second form of its condition
pub mod Sound
-- for what is lent
pub mod Passing
pub mod Answer
pub mod ThreePoints
pub mod Decide
