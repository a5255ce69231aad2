pub mod Running
pub mod Surrounding
