pub mod Array
pub mod ByteKind
pub mod Keys
pub mod NoNil
pub mod SlotOrder
pub mod Valid
