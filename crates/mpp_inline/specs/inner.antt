-- The invariants of the pass: the program under construction, and the work list. The contract of
-- `inline` uses none of them.
pub mod Cells
pub mod Labels
pub mod Tables
pub mod Growth
pub mod Work
pub mod Sizes
pub mod Observation
pub mod Ruleless
