pub mod Index
pub mod Path
pub mod Reading
pub mod Rule
pub mod Spelling
pub mod Text
