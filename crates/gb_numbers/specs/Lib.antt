pub mod Decimal
pub mod Native
pub mod Taken
