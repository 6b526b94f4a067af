pub mod Reading
pub mod Says
