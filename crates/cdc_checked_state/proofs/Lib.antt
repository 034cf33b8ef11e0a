pub mod RowLemmas
pub mod PartLemmas
pub mod LoopLemmas
pub mod PrintingLemmas
pub mod SavedLemmas
pub mod WidthLemmas
pub mod ReplayLemmas
