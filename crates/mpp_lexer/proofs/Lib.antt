pub mod Tokens
pub mod Steps
pub mod Texts
pub mod OneReading
