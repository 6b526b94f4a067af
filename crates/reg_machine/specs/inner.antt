-- Definitions that only the contracts of private functions use.
pub mod Cells
pub mod Packed
