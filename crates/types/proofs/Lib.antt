-- The inverse laws of addresses and keys, and the bounds of a tag.
pub mod Addresses
pub mod Keys
pub mod Levels
