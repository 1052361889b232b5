pub mod Entries
pub mod EntryText
pub mod Happenings
pub mod Lines
pub mod Machine
pub mod Naming
pub mod Values
