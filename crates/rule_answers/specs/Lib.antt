pub mod Checks
pub mod Lints
pub mod inner
