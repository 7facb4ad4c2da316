pub mod Answers
pub mod Device
pub mod Held
pub mod PowerOn
pub mod Refusals
