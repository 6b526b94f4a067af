-- Used by the contracts of inner functions only, not by those of the public calls.
pub mod Steps
