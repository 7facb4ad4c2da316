pub mod MarkedRuns
