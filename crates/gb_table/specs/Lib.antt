pub mod Entry
pub mod Pieces
pub mod Table
pub mod TextKey
pub mod TextTable
