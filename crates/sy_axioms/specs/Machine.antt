pub mod KeptMoments
pub mod Ready
pub mod Presents
