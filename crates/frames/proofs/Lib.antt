pub mod Bounds
pub mod Totals
