pub mod CanonicalText
pub mod Equality
pub mod ReadingBack
