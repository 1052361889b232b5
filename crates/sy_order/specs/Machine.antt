pub mod Names
pub mod NodeEdges
pub mod Places
pub mod Powers
pub mod Remedies
pub mod Tables
