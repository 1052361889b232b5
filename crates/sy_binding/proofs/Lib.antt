pub mod AgreeBindings
pub mod Agreeing
pub mod PlacesBindings
