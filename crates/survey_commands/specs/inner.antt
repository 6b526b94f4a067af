-- Definitions for the contracts of inner functions. The theorem of `m_survey` doesn't need them.
pub mod Courses
pub mod Finding
pub mod Outputs
pub mod Printers
