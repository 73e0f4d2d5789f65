-- The definitions that the contracts cite, then the laws of them, and examples.
pub mod Reports
pub mod ReportLaws
pub mod Numbers
pub mod Examples
pub mod Promises
