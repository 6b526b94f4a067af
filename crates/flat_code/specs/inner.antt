pub mod Renumber
pub mod Hashing
