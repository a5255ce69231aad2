pub mod Ask
pub mod Laws
pub mod Path
pub mod Place
