pub mod Answering
pub mod ReadingLine
