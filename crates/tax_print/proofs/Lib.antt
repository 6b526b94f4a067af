pub mod ValuesLemmas
pub mod NamesLemmas
