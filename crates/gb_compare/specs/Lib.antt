pub mod Layout
pub mod Placed
