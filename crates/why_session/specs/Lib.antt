pub mod Explains
pub mod Joined
pub mod inner
