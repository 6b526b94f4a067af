pub mod Answer
pub mod Clauses
pub mod Command
pub mod Output
pub mod inner
