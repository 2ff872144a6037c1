-- The record of a command: its layout, and the command that a record encodes.
pub mod Fields
pub mod Lists
pub mod CommandRecord
