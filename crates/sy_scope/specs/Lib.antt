pub mod Scopes
pub mod Sorts
pub mod Tokens
pub mod Walks
