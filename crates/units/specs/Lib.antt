pub mod Firs
pub mod Heard
pub mod Limits
pub mod Meanings
pub mod Pans
pub mod Ranges
pub mod Taps
