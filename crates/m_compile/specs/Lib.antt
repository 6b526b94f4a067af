pub mod Sources
pub mod Faults
pub mod Answers
pub mod Lines
pub mod Compiled
pub mod inner
