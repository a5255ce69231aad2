pub mod Keeping
pub mod OneByOne
pub mod Places
pub mod Spots
pub mod PutBack
pub mod Answered
