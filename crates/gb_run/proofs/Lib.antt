pub mod CutLemmas
pub mod ReportLemmas
pub mod RunLemmas
pub mod TraceLemmas
pub mod WordsLemmas
