-- The laws of byte strings that the crates above cite.
pub mod Strings
pub mod Xor
pub mod Numbers
pub mod Conversions
pub mod Words
pub mod Fields
pub mod Conditions
pub mod Writing
