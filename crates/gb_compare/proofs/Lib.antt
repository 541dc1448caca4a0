pub mod NestedLemmas
pub mod PlacedLemmas
