pub mod Numbers
pub mod Plain
pub mod Numbering
pub mod Schema
