pub mod Advances
pub mod Appending
pub mod FileReads
pub mod Keeping
pub mod LineLemmas
pub mod ReadLemmas
pub mod ToldLines
