pub mod BareNames
pub mod BareOrder
pub mod Counting
