pub mod Fields
pub mod Named
pub mod Views
pub mod Middleware
pub mod Actions
