pub mod FieldFound
pub mod Firsts
pub mod Places
