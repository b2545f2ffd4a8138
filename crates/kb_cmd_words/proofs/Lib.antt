pub mod LogLemmas
pub mod LogRuns
pub mod OrientLemmas
pub mod RunLemmas
pub mod ValueLemmas
