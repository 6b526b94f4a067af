-- Used by the contracts of inner functions only.
pub mod Calls
