-- What the reader of a part of a body gives.
pub mod Capability
