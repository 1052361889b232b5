pub mod ByPoint
pub mod Holding
