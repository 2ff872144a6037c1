-- NWK frames: reading, writing without a key, sealing and opening, the sealing law, the marks, the last counter, the address that the nonce
-- used, the presence bits, and the network's level.
pub mod Reading
pub mod Writing
pub mod Security
pub mod Sealing
pub mod Opening
pub mod SealingLaw
pub mod Marks
pub mod LastCounter
pub mod NonceIeee
pub mod PresenceBits
pub mod NetworkLevel
