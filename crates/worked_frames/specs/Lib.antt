-- Frames sealed and opened, worked out on the definitions.
pub mod Bytes
pub mod LastCounter
pub mod PresenceBits
pub mod Levels
