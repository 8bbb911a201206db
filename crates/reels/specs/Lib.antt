pub mod Clicks
pub mod Laws
pub mod Tracks
