pub mod Views
pub mod Keys
pub mod Finding
pub mod Searching
pub mod InPlace
pub mod Examples
pub mod Levels
pub mod PlainLevels
