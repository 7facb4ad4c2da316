pub mod MarkedBurst
