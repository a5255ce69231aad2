pub mod Answer
pub mod Arrival
pub mod Front
pub mod Head
pub mod Laws
pub mod Query
pub mod Reply
pub mod Request
