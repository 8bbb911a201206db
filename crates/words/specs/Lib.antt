pub mod Bytes
pub mod Faults
pub mod Numbers
pub mod Parsing
pub mod Pieces
pub mod Words
