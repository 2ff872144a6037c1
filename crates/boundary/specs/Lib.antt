-- The starred cases of document 01.
pub mod Rows
pub mod Starred
