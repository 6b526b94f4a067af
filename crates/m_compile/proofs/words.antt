pub mod Tokens
pub mod Items
pub mod Declared
pub mod Codes
pub mod Names
pub mod Requested
pub mod Labels
pub mod Faces
