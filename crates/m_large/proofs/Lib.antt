pub mod LargeLemmas
