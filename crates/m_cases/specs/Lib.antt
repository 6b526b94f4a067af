pub mod Columns
pub mod Cases
pub mod CaseRows
pub mod Mismatches
pub mod inner
