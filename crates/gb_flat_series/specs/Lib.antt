pub mod FlatSeries
pub mod Value
pub mod Variant
