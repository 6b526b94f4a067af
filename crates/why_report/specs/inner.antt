-- Used by the contracts of inner functions only, not by those of the public calls.
pub mod Checked
pub mod Held
pub mod Named
pub mod Parts
pub mod Plans
pub mod Standing
pub mod Terms
