pub mod Bursts
pub mod Same
pub mod Signing
