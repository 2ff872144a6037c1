-- The NWK header and the auxiliary header: what reading and writing them is, and that presence bits agree.
pub mod Optional
pub mod Control
pub mod Reading
pub mod Writing
pub mod AuxiliaryControl
pub mod Auxiliary
pub mod Same
pub mod PresenceBits
