-- The worked cases hold.
pub mod Blocks
pub mod LastCounter
pub mod PresenceBits
pub mod Levels
