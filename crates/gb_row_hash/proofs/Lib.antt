pub mod CombineLemmas
pub mod ColumnLemmas
pub mod AlikeLemmas
pub mod FaultLemmas
pub mod RowLemmas
