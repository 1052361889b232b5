pub mod Chains
pub mod Machine
