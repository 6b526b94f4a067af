pub mod Width
pub mod Allocation
pub mod inner
