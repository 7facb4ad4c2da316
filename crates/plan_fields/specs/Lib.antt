pub mod Asks
pub mod Lines
