pub mod Outcome
pub mod Limits
pub mod Applied
