pub mod Saying
pub mod Locating
pub mod Answering
