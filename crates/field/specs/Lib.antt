pub mod Field
pub mod SBox
pub mod Multiples
