pub mod BitLemmas
pub mod DependLemmas
pub mod ListLemmas
pub mod MaskLemmas
pub mod ValueLemmas
