pub mod Nodes
pub mod Naming
pub mod Texts
pub mod Machine
