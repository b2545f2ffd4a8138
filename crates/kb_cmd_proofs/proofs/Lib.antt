pub mod KbverifyRuns
pub mod ShowRuns
pub mod CertifyLemmas
