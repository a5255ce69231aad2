pub mod Naming
pub mod Folding
pub mod Restoring
pub mod Restored
