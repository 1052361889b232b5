mod Accepted
mod Apart
mod Faults
mod Ordered
mod SoundDeed
mod Whole
