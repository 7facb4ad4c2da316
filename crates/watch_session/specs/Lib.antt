pub mod Bounds
pub mod Watch
