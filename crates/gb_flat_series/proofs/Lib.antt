pub mod ColumnLemmas
pub mod TypeLemmas
pub mod UndoLemmas
