-- The lists that are read where the records of a file stand.
pub mod Columns
pub mod NodeLists
pub mod Promises
