pub mod Checks
pub mod Conditions
pub mod Counts
pub mod Environments
pub mod Items
pub mod Ranges
pub mod Terms
