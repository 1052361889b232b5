pub mod Tables
pub mod Changes
pub mod Tellings
pub mod Deeds
pub mod Roots
pub mod Terms
