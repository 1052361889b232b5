pub mod AgreeEvents
pub mod AgreePropositions
pub mod AgreeTerms
pub mod Chains
pub mod PlacesEvents
pub mod PlacesPropositions
pub mod PlacesTerms
