pub mod InTurn
pub mod PlainValues
pub mod Copies
pub mod ItemsTaken
pub mod Places
