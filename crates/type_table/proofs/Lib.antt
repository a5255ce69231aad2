pub mod Marking
pub mod Named
pub mod Places
pub mod Tagging
pub mod TakenLemmas
pub mod ApartLemmas
