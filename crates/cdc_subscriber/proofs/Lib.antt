mod Examples
pub mod BookFinds
pub mod BookLemmas
pub mod ReceptionLemmas
pub mod LineLemmas
pub mod PushLemmas
