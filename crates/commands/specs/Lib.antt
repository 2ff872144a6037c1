-- What the fifteen NWK commands are as bytes.
pub mod Codes
pub mod Format
pub mod Commands
pub mod Reading
pub mod Writing
