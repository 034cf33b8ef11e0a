mod Examples
pub mod BindingLemmas
pub mod FieldMarks
pub mod KeepLemmas
pub mod LetterLemmas
pub mod LineLemmas
pub mod PrintableLemmas
pub mod ReadLemmas
pub mod WordLemmas
