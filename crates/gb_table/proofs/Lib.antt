pub mod EntryLemmas
pub mod KeyLemmas
pub mod PieceLemmas
pub mod SearchLemmas
pub mod TableLemmas
pub mod TextLemmas
pub mod TextTableLemmas
