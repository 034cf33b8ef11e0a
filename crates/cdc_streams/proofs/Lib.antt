pub mod EntryLemmas
pub mod KeepingLemmas
pub mod OrderLemmas
pub mod RunLemmas
pub mod SavingLemmas
