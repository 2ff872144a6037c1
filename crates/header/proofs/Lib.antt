-- The laws of the two headers: reading undoes writing and writing undoes reading.
pub mod Codes
pub mod ControlFields
pub mod OptionalFields
pub mod Writable
pub mod ReadBack
pub mod WriteBack
pub mod AuxiliaryLaws
pub mod ReadFits
pub mod ReadFacts
pub mod PresenceBits
