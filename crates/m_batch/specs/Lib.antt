pub mod Batch
pub mod Printing
pub mod inner
