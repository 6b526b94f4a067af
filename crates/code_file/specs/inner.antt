-- Definitions for the contracts of inner functions. Public contracts use none of them.
pub mod Came
pub mod Faces
pub mod Read
pub mod Spelled
