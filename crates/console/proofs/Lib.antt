pub mod Adding
pub mod Filling
pub mod Histories
pub mod Rules
