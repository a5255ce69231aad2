pub mod Trees
pub mod Tied
pub mod Calls
pub mod Laws
