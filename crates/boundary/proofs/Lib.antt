-- The starred cases of document 01 hold.
pub mod Starred
