pub mod LineRuns
pub mod StoreRuns
pub mod LoadedRuns
