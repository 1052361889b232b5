pub mod Declarations
pub mod Enumerations
pub mod Events
pub mod Machine
pub mod Numbers
