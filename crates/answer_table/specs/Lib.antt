-- What the program answers to a contour table and to what extraction gave, by the definitions of the crates below.
pub mod BoundText
pub mod ExtractionText
pub mod Promises
