pub mod Comparing
pub mod Judging
pub mod Verdicts
pub mod Which
