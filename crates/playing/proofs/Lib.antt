pub mod Bound
pub mod Follow
pub mod Hearing
pub mod Keeping
pub mod Plays
pub mod Slots
