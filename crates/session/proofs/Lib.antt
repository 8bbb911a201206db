pub mod Drafting
pub mod Entries
pub mod Rules
