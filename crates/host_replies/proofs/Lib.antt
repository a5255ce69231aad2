pub mod Statuses
pub mod PlainBodies
