pub mod Histories
pub mod Machine
