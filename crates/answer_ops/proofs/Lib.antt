pub mod Views
pub mod Bounded
pub mod Lengths
pub mod Indices
