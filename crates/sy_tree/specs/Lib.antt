pub mod Machine
pub mod Propositions
pub mod Terms
