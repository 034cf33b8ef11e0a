mod Examples
mod HeldLemmas
mod PieceLemmas
mod ReaderLemmas
