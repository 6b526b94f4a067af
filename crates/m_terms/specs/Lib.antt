pub mod Tokens
pub mod Headers
pub mod Grammar
pub mod Depth
pub mod Terms
pub mod inner
