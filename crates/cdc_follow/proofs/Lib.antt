pub mod CountLemmas
pub mod EntryLemmas
pub mod EntryWidths
mod Examples
pub mod FoldLemmas
pub mod LineLemmas
pub mod OnceLemmas
pub mod PlainLemmas
pub mod QueueLemmas
pub mod ReceivedLemmas
pub mod SaveableLemmas
pub mod SavedLemmas
pub mod StepLemmas
pub mod StopLemmas
pub mod TurnLemmas
pub mod WidthLemmas
