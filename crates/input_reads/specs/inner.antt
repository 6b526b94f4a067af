pub mod Masks
pub mod Lists
