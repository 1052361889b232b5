pub mod Passing
pub mod Dates
pub mod Keeping
pub mod AtomLaws
pub mod Leading
