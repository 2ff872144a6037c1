-- CCM as SP 800-38C has it, for a nonce of 13 bytes (so q = 2) and a tag of t bytes, over byte lists. The forward cipher
-- function CIPH_K is a parameter `ciph`; `aes128 key` takes its place in the operations.
pub mod Formatting
pub mod Counters
pub mod Mac
pub mod Generation
pub mod Verification
pub mod Operations
pub mod Levels
