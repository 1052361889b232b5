pub mod Machine
pub mod Narratives
