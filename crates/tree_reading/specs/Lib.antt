pub mod Searching
pub mod Seeking
pub mod Leading
pub mod Settled
pub mod Held
pub mod Clearing
