pub mod Taps
