pub mod Absent
pub mod Causes
pub mod Keeps
pub mod Machine
pub mod Runs
pub mod Transacting
pub mod Identifying
pub mod Leading
