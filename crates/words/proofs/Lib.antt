pub mod Cutting
pub mod Lexing
pub mod Runs
