-- The logic's encoding of trees, and what only the contracts of inner functions use. Those of the
-- public calls use none of it.
pub mod TermCoding
pub mod TermFalls
pub mod CommandCoding
pub mod CommandFalls
pub mod Reading
pub mod Blocks
pub mod Outers
