pub mod DateOfPoint
pub mod Days
pub mod Ranges
pub mod Texts
pub mod Years
