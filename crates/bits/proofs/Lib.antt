pub mod Decide
pub mod Join
pub mod Laws
