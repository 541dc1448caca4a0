pub mod CleanLemmas
pub mod FillLemmas
pub mod OffsetLemmas
pub mod RangeLemmas
pub mod ShareLemmas
