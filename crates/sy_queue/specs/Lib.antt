pub mod Deadlines
pub mod Machine
