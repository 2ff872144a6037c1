pub mod State
pub mod Words
pub mod Rounds
pub mod KeyExpansion
pub mod Cipher
