pub mod Planted
pub mod Shells
pub mod Steps
