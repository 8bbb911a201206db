pub mod Accepted
pub mod Reading
pub mod Scripts
pub mod Stages
pub mod Turning
