-- in the order of dependence
pub mod Zipped
pub mod Cells
pub mod Buffer
pub mod Rows
pub mod Keys
pub mod Told
pub mod Parts
pub mod Lent
pub mod Context
