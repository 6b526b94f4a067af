-- The encoding of terms in the logic, and that parts are smaller than the whole. Contracts don't
-- need it.
pub mod Coding
pub mod Falls
