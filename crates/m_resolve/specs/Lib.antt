pub mod Terms
pub mod Bases
pub mod inner
