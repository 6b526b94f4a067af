pub mod Facts
pub mod Ranges
pub mod Results
pub mod inner
