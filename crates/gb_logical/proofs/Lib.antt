pub mod BuilderLemmas
pub mod CategoryLemmas
pub mod CodingLemmas
pub mod LogicalLemmas
