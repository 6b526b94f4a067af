-- Used by the contracts of inner functions only, not by the public contract.
pub mod Steps
pub mod Parts
pub mod FileSteps
