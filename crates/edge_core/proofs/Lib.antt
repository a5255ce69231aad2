pub mod DoorSteps
pub mod Written
pub mod WorldSteps
