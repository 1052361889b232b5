pub mod Bound
pub mod BoundLiterals
pub mod BoundNames
pub mod BoundTypes
pub mod Checks
pub mod Givens
pub mod Machine
