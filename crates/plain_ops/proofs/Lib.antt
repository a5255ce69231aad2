pub mod Division
pub mod Sizes
pub mod Indices
pub mod Equality
pub mod FieldLemmas
