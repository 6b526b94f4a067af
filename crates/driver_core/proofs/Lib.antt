pub mod Adding
pub mod GroupLemmas
pub mod Orders
pub mod SumLemmas
pub mod TableLemmas
pub mod LevelLemmas
