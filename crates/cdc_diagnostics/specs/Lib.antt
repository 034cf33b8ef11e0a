pub mod Diagrams
pub mod Movements
pub mod Recordings
pub mod Sentences
pub mod StepTexts
pub mod Texts
pub mod Traces
