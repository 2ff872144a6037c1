-- Opening a burst of frames in one call, and what is claimed of it.
pub mod Burst
pub mod Claims
pub mod LevelFive
