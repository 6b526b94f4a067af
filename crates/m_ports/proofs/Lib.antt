pub mod FileLemmas
pub mod SinkLemmas
pub mod SourceLemmas
pub mod GivingLemmas
pub mod BufferLemmas
