-- Definitions for the contracts of inner functions. Public contracts use none of them.
pub mod Blocks
pub mod Places
pub mod Ran
pub mod Rooms
pub mod Rows
pub mod Texts
