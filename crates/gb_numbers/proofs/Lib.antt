pub mod DecimalLemmas
pub mod DecimalTextLemmas
pub mod DigitLemmas
pub mod HexLemmas
