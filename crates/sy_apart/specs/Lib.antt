pub mod Apart
pub mod Things
