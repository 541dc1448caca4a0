pub mod Buffers
pub mod Clean
pub mod Nullable
pub mod Shares
