pub mod Absent
pub mod Happens
pub mod Run
pub mod Transactions
