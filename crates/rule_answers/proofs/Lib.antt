pub mod Refusals
pub mod CheckLemmas
pub mod StartLemmas
pub mod LintLemmas
