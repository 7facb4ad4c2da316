pub mod Judging
pub mod Left
pub mod Standing
