pub mod EntryLemmas
pub mod QueueLemmas
