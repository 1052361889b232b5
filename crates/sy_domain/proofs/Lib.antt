pub mod EachValue
pub mod Found
pub mod Owned
pub mod Naming
pub mod Chain
pub mod Ended
pub mod Marked
