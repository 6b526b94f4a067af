pub mod SessionLemmas
pub mod LargeLemmas
pub mod LargeLimits
pub mod Ways
pub mod ExplainedLemmas
pub mod SchemeLaws
