-- What the proofs of the functions cite, and the laws of CCM for the crates above.
mod Blocks
mod Input
mod Chains
mod Streams
pub mod Tags
pub mod RoundKeys
pub mod ZeroFill
pub mod Opening
pub mod BlockCounts
pub mod Runs
pub mod Levels
