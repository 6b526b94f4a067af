pub mod NumberLemmas
pub mod CodeLemmas
pub mod MarkLemmas
pub mod SetLemmas
pub mod LoudLemmas
pub mod ReadLemmas
pub mod TruthLemmas
pub mod PrintLemmas
