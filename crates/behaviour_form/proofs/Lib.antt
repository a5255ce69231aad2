pub mod Naming
pub mod Listed
pub mod Keyed
pub mod InOrder
