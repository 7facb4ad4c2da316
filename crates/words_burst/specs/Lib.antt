pub mod Burst
pub mod Cuts
