pub mod Acting
pub mod Answers
pub mod Changing
pub mod Documents
pub mod Errors
pub mod Laws
pub mod Staging
pub mod Viewing
