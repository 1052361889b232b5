pub mod AgreeLines
pub mod AgreeSpecifications
pub mod Agreeing
pub mod PlacesSpecifications
