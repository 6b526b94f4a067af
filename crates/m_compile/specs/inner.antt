-- Definitions for the contracts of inner functions. Public contracts use none of them.
pub mod Steps
pub mod Parts
