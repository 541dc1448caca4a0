pub mod AnswerLemmas
pub mod ClassesLemmas
pub mod FoldLemmas
pub mod PartitionLemmas
pub mod PathLemmas
pub mod SlotLemmas
pub mod WrapLemmas
