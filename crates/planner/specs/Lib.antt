pub mod Halfway
pub mod Pairwise
