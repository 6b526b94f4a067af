pub mod Found
pub mod Lines
pub mod Truths
pub mod inner
