pub mod Doing
pub mod Acting
pub mod Beginning
pub mod Parts
pub mod Writes
