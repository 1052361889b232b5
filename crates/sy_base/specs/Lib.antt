pub mod Dates
pub mod Measures
pub mod Points
pub mod Refusals
