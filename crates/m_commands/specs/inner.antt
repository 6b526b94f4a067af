-- Definitions for the contracts of inner functions. The theorem of `m_tax` doesn't need them.
pub mod Courses
