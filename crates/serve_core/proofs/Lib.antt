pub mod Causing
pub mod Taking
pub mod Finishing
pub mod Leading
