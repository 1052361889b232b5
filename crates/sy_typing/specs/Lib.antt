pub mod Machine
pub mod Outlines
pub mod Plans
pub mod Positions
