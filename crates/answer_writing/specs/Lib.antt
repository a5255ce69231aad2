pub mod Taking
pub mod Giving
pub mod Placing
pub mod View
pub mod Written
