pub mod ReadingPropositions
pub mod ReadingTerms
