pub mod Chains
pub mod Spellings
pub mod Tokens
pub mod inner
