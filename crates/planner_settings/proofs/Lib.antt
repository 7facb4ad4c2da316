pub mod Formed
pub mod Parts
pub mod Words
