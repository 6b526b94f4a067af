-- Definitions for the contracts of inner functions. Public contracts use none of them.
pub mod Outputs
pub mod Cells
