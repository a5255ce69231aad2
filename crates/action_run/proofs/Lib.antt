pub mod Sequences
pub mod Layered
pub mod Counted
pub mod Calls
