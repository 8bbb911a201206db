pub mod Promise
pub mod Tape
pub mod Theorems
pub mod Work
