pub mod KeptLemmas
pub mod LogLemmas
