pub mod Accepted
pub mod Distinct
pub mod Fresh
pub mod Members
pub mod Meanings
pub mod Parts
pub mod Things
