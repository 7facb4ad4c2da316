pub mod Answer
pub mod Formed
pub mod Promise
