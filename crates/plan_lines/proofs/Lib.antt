pub mod Answering
pub mod Parts
pub mod Whole
pub mod Writing
