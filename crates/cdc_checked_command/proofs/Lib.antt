pub mod KeptLemmas
mod LineLemmas
mod StoredLemmas
