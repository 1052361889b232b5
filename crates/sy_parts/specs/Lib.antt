pub mod Bare
pub mod Counts
