pub mod Laws
pub mod Plain
pub mod Which
