-- What the proofs cite beside the laws of specs/, and what is proved of reports.
mod Measuring
pub mod Reported
pub mod ReportedExamples
