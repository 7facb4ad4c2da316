pub mod Interrupt
pub mod Registers
