pub mod Copies
pub mod Created
pub mod Counting
pub mod Changed
pub mod Failing
pub mod Staying
pub mod Running
pub mod Own
