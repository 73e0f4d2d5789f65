-- The program's lists before reading.
pub mod Zeros
