-- Laws of a burst's frames and parts, its claims, and the proofs of the functions.
pub mod Sums
pub mod Parts
pub mod Accepted
pub mod Turns
pub mod Claims
pub mod LevelFive
