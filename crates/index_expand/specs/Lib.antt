pub mod Terms
pub mod Parts
pub mod Plain
pub mod LoopFaults
pub mod Expansion
pub mod Faults
pub mod inner
