pub mod PlainCore
pub mod NameLemmas
pub mod Assembled
pub mod ListLemmas
pub mod CallLemmas
pub mod OneLaws
pub mod OnceLemmas
pub mod ValidCore
