pub mod Digits
pub mod Fronts
pub mod LineLemmas
pub mod Longest
pub mod Spelled
pub mod PartLemmas
