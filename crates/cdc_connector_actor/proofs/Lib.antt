pub mod ConnectorLemmas
mod RestartExamples
mod Seated
pub mod Words
