pub mod Declarations
pub mod Events
pub mod Paths
pub mod Targets
pub mod UnknownNames
