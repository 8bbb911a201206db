pub mod Answers
pub mod Calls
pub mod Desks
pub mod Faults
pub mod Histories
pub mod Points
