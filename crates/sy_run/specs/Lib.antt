pub mod Commands
pub mod ExitNumbers
pub mod Machine
pub mod Outcomes
pub mod Output
pub mod Run
pub mod Texts
pub mod World
