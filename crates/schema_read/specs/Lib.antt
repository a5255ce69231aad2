pub mod Types
pub mod Astray
pub mod Schema
pub mod Laws
pub mod Refusal
pub mod Assembly
