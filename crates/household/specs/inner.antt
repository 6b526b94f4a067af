pub mod Kept
pub mod Cuts
pub mod Parts
pub mod Pairs
