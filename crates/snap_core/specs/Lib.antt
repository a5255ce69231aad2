pub mod Name
pub mod Value
pub mod View
pub mod Unview
pub mod Level
