pub mod MarkedHost
