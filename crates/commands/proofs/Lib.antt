-- The laws of the fifteen NWK commands.
pub mod Format
pub mod Layouts
pub mod CodeLaws
pub mod Commands
pub mod Ranges
pub mod Lengths
pub mod InRange
pub mod Reread
pub mod RoundTrip
pub mod Seconds
pub mod EntriesWritten
pub mod Filling
