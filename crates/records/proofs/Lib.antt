-- Laws of the records, and the proofs of the functions that read and write them.
pub mod AnyPlace
pub mod Writes
pub mod Sizes
pub mod Refused
pub mod WithinLimits
pub mod Accepted
pub mod FieldsBack
pub mod RecordBack
pub mod Plain
pub mod RoundTrip
pub mod Zeros
pub mod OpenedBack
