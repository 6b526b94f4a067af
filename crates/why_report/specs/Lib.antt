pub mod Derivations
pub mod Reasons
pub mod Reports
pub mod Starts
pub mod inner
