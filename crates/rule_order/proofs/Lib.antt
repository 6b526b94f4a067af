pub mod CycleLemmas
pub mod MarkLemmas
pub mod OrderLemmas
pub mod RunLemmas
pub mod SearchLemmas
pub mod ValueLemmas
pub mod WalkLemmas
