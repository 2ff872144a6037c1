-- The laws of frames, the sealing law among them, and what the proofs of the functions cite.
pub mod Levels
pub mod Payloads
pub mod Accepted
pub mod FirstHalf
pub mod SecondHalf
pub mod SealingLaw
pub mod Answers
pub mod Opened
pub mod ClearFrames
pub mod Marks
pub mod LastCounter
pub mod NonceIeee
pub mod PresenceBits
pub mod NetworkLevel
