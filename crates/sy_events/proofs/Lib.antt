pub mod Attributes
mod Turns
