pub mod Sources
pub mod Valid
