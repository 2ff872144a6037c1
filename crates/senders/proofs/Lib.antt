-- The laws of the inbound counters, and what the functions over a list cite.
pub mod Naming
pub mod Firsts
pub mod Forgetting
pub mod Places
pub mod Noting
pub mod Finding
pub mod Claims
pub mod WorkedCases
