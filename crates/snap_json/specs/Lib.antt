pub mod Fault
pub mod Loose
pub mod Printing
pub mod Reading
