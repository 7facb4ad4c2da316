pub mod AllPins
pub mod Cause
pub mod Kept
pub mod OnePin
pub mod Pin
pub mod Points
