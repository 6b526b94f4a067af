pub mod FactLemmas
pub mod FieldLemmas
pub mod RangeLemmas
pub mod RowLemmas
