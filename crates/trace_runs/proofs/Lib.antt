pub mod LogRuns
