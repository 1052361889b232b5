pub mod Counting
pub mod Machine
pub mod Standing
