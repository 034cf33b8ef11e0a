pub mod KeptLemmas
pub mod SkipLemmas
mod StoredLemmas
