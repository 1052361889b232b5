pub mod Windows
pub mod Kept
pub mod Told
pub mod Atoms
pub mod Steps
