pub mod Buses
pub mod Refusals
pub mod Samples
