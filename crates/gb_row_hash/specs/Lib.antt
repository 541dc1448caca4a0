-- in the order of dependence
pub mod Hashes
pub mod Rows
pub mod Alike
