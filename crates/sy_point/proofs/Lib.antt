pub mod DatesOn
pub mod NextWake
pub mod Skipping
pub mod WakeCounts
