-- Laws of the answers and refusals of the C functions, and the proofs of the functions.
pub mod Calls
pub mod Refusals
pub mod FrameRefusals
pub mod ReadThenWritten
pub mod SealingLaw
