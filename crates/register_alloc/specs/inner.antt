-- Definitions that only the contracts of private functions use.
pub mod OutputChain
pub mod Index
pub mod Last
pub mod Tables
pub mod Valid
pub mod Sound
