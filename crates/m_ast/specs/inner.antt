-- The logic's encoding of terms, and its proof that parts are smaller. Contracts don't use it.
pub mod Coding
pub mod Falls
pub mod PlainFalls
pub mod PlainForms
