pub mod Arguments
pub mod Writes
pub mod Leading
pub mod Schemas
mod Settled
mod Nothing
