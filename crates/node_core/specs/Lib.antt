pub mod View
pub mod Olds
