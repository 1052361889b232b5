pub mod Cutting
pub mod Room
