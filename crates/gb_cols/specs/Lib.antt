pub mod Codes
pub mod Column
pub mod Near
pub mod Null
