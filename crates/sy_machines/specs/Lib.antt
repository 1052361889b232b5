pub mod Fired
pub mod Rows
pub mod Given
