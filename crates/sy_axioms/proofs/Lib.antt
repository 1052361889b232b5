pub mod Dates
pub mod Equal
pub mod GoesOn
pub mod LastMoment
pub mod OneRound
pub mod Passing
pub mod Verdicts
