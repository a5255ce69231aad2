pub mod PlainBodies
pub mod PlainTold
pub mod Listing
pub mod Telling
