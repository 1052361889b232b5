pub mod Replies
pub mod Stopping
pub mod Stream
