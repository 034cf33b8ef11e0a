pub mod LineTexts
pub mod MessageTexts
pub mod Neat
pub mod StepLemmas
pub mod Values
