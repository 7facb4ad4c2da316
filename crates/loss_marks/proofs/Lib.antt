pub mod Laws
pub mod Signing
pub mod Stepping
