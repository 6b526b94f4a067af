pub mod BoundLemmas
pub mod Numbers
pub mod Counts
pub mod Marks
pub mod KeptLemmas
pub mod SingleLemmas
