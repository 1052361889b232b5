pub mod Histories
pub mod Evaluation
pub mod KnownWakes
pub mod Exactly
