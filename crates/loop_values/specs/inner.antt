pub mod Bound
pub mod Kept
pub mod Singles
