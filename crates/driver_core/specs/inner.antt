-- The logic's encoding of commands, and what only the contracts of inner functions use.
-- The public contracts use none of it.
pub mod LeafLaws
pub mod ActionCoding
pub mod ActionFalls
pub mod Numbers
pub mod Capped
pub mod WeightTable
