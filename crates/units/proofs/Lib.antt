pub mod Peaks
pub mod Reducing
pub mod Rested
pub mod Rings
pub mod Tables
pub mod Tapping
