-- Definitions for the contracts of inner functions. Those of public functions use none of them.
pub mod Steps
pub mod Chains
