pub mod FrameLemmas
pub mod RecordLemmas
