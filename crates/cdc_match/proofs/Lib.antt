pub mod Examples
pub mod FilterLaws
pub mod PairLemmas
pub mod QueueLaws
