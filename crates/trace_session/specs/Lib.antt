pub mod Bounds
pub mod Tracing
