pub mod TableLemmas
pub mod LawLemmas
pub mod StepLaws
pub mod BuilderLemmas
pub mod DraftLemmas
pub mod NumberingLemmas
pub mod CellLemmas
