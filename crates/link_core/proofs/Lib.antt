pub mod Completing
pub mod Told
pub mod Writing
pub mod Exchanging
pub mod Turning
pub mod Serving
pub mod Leading
