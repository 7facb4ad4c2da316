pub mod Heard
pub mod Taken
