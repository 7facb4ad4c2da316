pub mod Stepping
pub mod Images
pub mod Making
