pub mod Distinct
pub mod KeyLemmas
pub mod NameLemmas
