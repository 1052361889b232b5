pub mod Ended
pub mod Marked
pub mod Owners
