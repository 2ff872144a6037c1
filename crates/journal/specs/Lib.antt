-- The definitions of the journal: its format, recovery, writing, the next counter and shrinking; the life of a gateway over it, and what
-- is claimed; and what one pass over it gathers.
pub mod Format
pub mod Recovery
pub mod Writing
pub mod Shrinking
pub mod Life
pub mod Claims
pub mod ShrinkingClaims
pub mod Scan
pub mod WorkedCases
