pub mod BurstRuns
