pub mod Spoken
pub mod Answered
