pub mod Entries
pub mod Fitting
pub mod Runs
pub mod Sound
pub mod Turns
pub mod WritingLemmas
