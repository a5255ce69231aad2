pub mod Answering
pub mod Exit
pub mod Hosting
pub mod Report
pub mod Run
pub mod RunInside
pub mod Words
