pub mod GrowLemmas
pub mod ValueLemmas
pub mod StandLemmas
