pub mod Calling
pub mod Cuts
