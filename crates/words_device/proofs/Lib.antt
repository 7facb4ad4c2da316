pub mod Naming
pub mod Powering
