pub mod Kept
pub mod Lawful
pub mod Pinwise
pub mod Writing
pub mod Written
