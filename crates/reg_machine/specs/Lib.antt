pub mod Flow
pub mod Machine
pub mod inner
