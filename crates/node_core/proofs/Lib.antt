pub mod Views
pub mod PlainValues
pub mod PartWays
pub mod Patches
pub mod BetweenSteps
