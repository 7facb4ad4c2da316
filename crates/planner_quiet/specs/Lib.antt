pub mod Order
pub mod Quiet
pub mod Route
pub mod Settings
