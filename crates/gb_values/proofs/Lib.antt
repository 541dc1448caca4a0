pub mod CellLemmas
pub mod ExtendLemmas
pub mod FlagLemmas
pub mod KeyLemmas
pub mod NumberLemmas
pub mod PieceLemmas
pub mod SlotOrderLemmas
pub mod ValueLemmas
