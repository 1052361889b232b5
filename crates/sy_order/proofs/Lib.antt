pub mod Acting
pub mod Edging
pub mod Filling
pub mod Needing
pub mod Numbering
pub mod Parts
pub mod Remedying
pub mod SoundNames
