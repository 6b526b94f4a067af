-- Definitions for the contracts of inner functions. Readers of the public contracts don't need them.
pub mod Answers
pub mod Printers
pub mod Refusals
