pub mod AppendLemmas
mod AccountLemmas
mod CrashLemmas
mod LogLemmas
pub mod ReplayLemmas
mod TrackingLemmas
