pub mod Counted
mod Gathering
pub mod Named
pub mod Optional
pub mod Sound
