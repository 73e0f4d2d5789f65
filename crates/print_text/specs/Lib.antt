-- Texts and decimal numbers as bytes.
pub mod Text
pub mod Decimal
pub mod Promises
