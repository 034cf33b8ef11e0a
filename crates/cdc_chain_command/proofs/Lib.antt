pub mod LogLemmas
pub mod ReadLemmas
pub mod RunLemmas
