pub mod FoundElements
pub mod LineLemmas
pub mod SentLemmas
pub mod TextLemmas
