pub mod Calendar
pub mod Consequents
pub mod Limits
pub mod Literals
pub mod Numbers
pub mod Values
