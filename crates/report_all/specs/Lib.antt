-- The definitions that the contracts cite, examples, then the laws of them.
pub mod Columns
pub mod Examples
pub mod ColumnLaws
pub mod Promises
