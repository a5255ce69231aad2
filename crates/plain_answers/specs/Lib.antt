pub mod Plainness
pub mod EachExpression
pub mod Laws
