pub mod Schedule
pub mod Block
mod Columns
