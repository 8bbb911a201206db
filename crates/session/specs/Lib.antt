pub mod Contents
pub mod Drafts
pub mod Held
pub mod Lawful
pub mod Plan
pub mod Sessions
