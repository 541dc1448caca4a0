pub mod ByteLemmas
pub mod EntryLemmas
pub mod TableLemmas
