pub mod Existence
mod Few
mod FirstFault
mod Kept
mod Lines
mod Outlined
mod Refusals
mod Turns
