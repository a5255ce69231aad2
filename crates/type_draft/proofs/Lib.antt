pub mod Plans
pub mod Loops
pub mod LevelLemmas
pub mod Rounds
pub mod Drafts
