-- Numbers in a list of bytes; what the functions promise of them.
pub mod Bytes
pub mod Promises
