pub mod Examples
pub mod Patches
pub mod Signals
pub mod Theorems
