pub mod Answering
pub mod Promising
