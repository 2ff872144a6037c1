-- The records of header, auxiliary header and opened frame: their layouts, and the bytes that their fields cannot take.
pub mod Limits
pub mod Optional
pub mod HeaderRecord
pub mod AuxiliaryRecord
pub mod OpenedRecord
