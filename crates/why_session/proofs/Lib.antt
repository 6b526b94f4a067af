pub mod LineLemmas
pub mod EditLemmas
pub mod ReasonLemmas
