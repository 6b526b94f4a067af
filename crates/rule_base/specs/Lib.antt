pub mod Base
pub mod Faults
pub mod Files
pub mod inner
