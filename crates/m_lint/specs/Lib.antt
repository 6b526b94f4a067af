pub mod Readings
pub mod Findings
pub mod Truths
pub mod Lines
pub mod inner
