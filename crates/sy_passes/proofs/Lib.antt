pub mod SameEvents
pub mod OnePass
