pub mod Names
pub mod Bodies
pub mod Cores
pub mod inner
