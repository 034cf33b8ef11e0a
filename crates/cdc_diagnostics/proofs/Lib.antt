mod Examples
pub mod Events
pub mod OneMoreStep
pub mod Words
