-- What the contracts of addresses, keys and levels cite.
pub mod Addresses
pub mod Keys
pub mod Optional
pub mod Counters
pub mod Levels
