-- What the promise of binding comes to for printing.
pub mod Prints
