pub mod Edges
pub mod Machine
