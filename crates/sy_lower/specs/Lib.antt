pub mod Basis
pub mod Dates
pub mod Events
pub mod Parts
pub mod Positions
pub mod Propositions
pub mod Values
