pub mod AllPins
pub mod Causes
pub mod Kept
pub mod Points
pub mod Rules
