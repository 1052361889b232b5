pub mod Ascending
pub mod Kept
pub mod Members
pub mod Splitting
