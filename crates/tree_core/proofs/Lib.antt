mod Office
mod Examples
pub mod Splicing
pub mod Answering
pub mod Moving
pub mod PartFacts
pub mod Keys
pub mod Keeping
pub mod NodeKeeping
pub mod WriteKeeping
pub mod PlaceKeeping
pub mod Setting
pub mod Reconciled
