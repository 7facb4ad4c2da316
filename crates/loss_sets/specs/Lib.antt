pub mod Refused
pub mod Sets
