-- Ends, their order round a node, the ring of a node, and the rules of walking read off it; leaves first.
pub mod Ends
pub mod RingOrder
pub mod Turning
pub mod Sorted
pub mod Rotation
pub mod Rings
-- rules 3 and 1 by the ring
pub mod NextByRing
-- the ring as ends that lead to one another, and the loops that follow it
pub mod Linked
pub mod Follow
pub mod RingLoop
pub mod Climb
-- rule 1 asked again at the same link
pub mod AgainByRing
-- the pass that makes it
pub mod Making
pub mod Linking
pub mod LinkOne
pub mod LastEnd
-- the lists that the code keeps
pub mod Field
pub mod Steering
pub mod Descent
-- worked examples
pub mod RingTest
pub mod Promises
