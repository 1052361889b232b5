pub mod Attributes
pub mod Comparisons
pub mod Conditions
pub mod Dates
pub mod Declarations
pub mod Positions
pub mod Terms
pub mod WrongTypes
