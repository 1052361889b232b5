pub mod DateTexts
pub mod Numbered
