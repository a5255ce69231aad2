pub mod Faults
pub mod Passes
pub mod Defaulting
pub mod Reaching
pub mod Levels
