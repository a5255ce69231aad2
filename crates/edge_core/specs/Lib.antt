pub mod Door
pub mod DoorInside
pub mod Faults
pub mod LinkInside
pub mod Room
pub mod World
