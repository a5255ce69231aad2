pub mod Escapes
pub mod Examples
pub mod Indices
pub mod Plain
pub mod Tildes
pub mod Tokens
