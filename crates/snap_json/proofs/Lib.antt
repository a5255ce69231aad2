pub mod Loosenings
pub mod Ordered
pub mod Printings
pub mod Readings
pub mod Steps
