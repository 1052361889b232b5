pub mod Machine
pub mod Specifications
pub mod Spelling
