pub mod Bytes
pub mod Lines
pub mod Numbers
pub mod Parts
pub mod Pieces
pub mod Words
