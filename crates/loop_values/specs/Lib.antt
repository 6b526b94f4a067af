pub mod Letters
pub mod Values
pub mod Headers
pub mod inner
