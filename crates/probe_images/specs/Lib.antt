pub mod Asked
pub mod Images
pub mod Begun
