pub mod Laws
pub mod Schemas
