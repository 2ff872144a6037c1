pub mod Computed
pub mod Bytes
pub mod Entries
