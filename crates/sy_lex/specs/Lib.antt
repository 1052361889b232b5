pub mod Bytes
pub mod Forms
pub mod Keywords
pub mod Lexemes
pub mod Machine
pub mod Signs
pub mod Tokens
