pub mod Operands
pub mod Repeats
pub mod Taken
pub mod Meanings
