pub mod OverBus
