pub mod LeafLemmas
pub mod NumberLemmas
pub mod PositionLemmas
pub mod ReadTestLemmas
pub mod SlowLemmas
pub mod TermLemmas
pub mod TurnLemmas
