pub mod HeldLemmas
pub mod ReaderLemmas
