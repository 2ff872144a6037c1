-- Byte strings as lists of numbers, and what the crates above share.
pub mod Strings
pub mod Numbers
pub mod Fields
pub mod Refusals
pub mod Writing
