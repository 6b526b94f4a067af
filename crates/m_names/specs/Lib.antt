pub mod Faults
pub mod Hashes
pub mod Names
