pub mod AbelianLemmas
pub mod LimitLemmas
pub mod RunLemmas
pub mod LogreadRuns
pub mod SelfTestRuns
