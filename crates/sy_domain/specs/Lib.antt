pub mod Attributes
pub mod Chains
pub mod Checks
pub mod Failures
pub mod Machine
pub mod Names
pub mod Ontologies
pub mod TypeNames
