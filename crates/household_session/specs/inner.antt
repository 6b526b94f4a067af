pub mod Ready
pub mod Alike
pub mod Going
