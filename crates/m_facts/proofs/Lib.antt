pub mod FindLemmas
pub mod FirstLemmas
pub mod LineLemmas
pub mod PrintLemmas
pub mod TruthLemmas
