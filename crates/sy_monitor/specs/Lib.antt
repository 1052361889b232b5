pub mod Following
pub mod Machine
