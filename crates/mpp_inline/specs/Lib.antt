pub mod Inlined
pub mod Labelling
pub mod inner
