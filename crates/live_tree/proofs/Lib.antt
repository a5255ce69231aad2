pub mod Counting
pub mod RollingBack
pub mod KeptCalls
pub mod Changes
pub mod Beginning
pub mod SettledTree
pub mod TakenBack
pub mod PlainParts
