pub mod Keeping
pub mod Later
pub mod Lists
pub mod Placing
pub mod Putting
