pub mod Lists
pub mod Sizes
pub mod Marked
pub mod TargetLemmas
pub mod Valid
pub mod Words
