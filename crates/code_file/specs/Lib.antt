pub mod Loading
pub mod Printable
pub mod Reading
pub mod Text
pub mod inner
