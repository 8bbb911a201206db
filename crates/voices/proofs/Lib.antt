pub mod KindLaws
pub mod Looks
pub mod Pasts
pub mod Weights
