-- The inbound counters: a sender's record, and the operations over a list of records.
pub mod Records
pub mod Senders
pub mod Claims
pub mod WorkedCases
