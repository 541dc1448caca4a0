pub mod AnyValueLemmas
pub mod DataTypeLemmas
pub mod NameLemmas
pub mod NameSetLemmas
pub mod TextLemmas
