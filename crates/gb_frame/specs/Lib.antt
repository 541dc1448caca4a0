pub mod Agg
pub mod Answers
pub mod GroupBy
pub mod Grouping
pub mod Key
pub mod NamedColumns
pub mod Refusals
