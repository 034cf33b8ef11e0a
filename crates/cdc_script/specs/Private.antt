-- What the contracts of private functions alone cite: a reader has to believe none of it.
pub mod Acts
pub mod Drafts
pub mod Lines
pub mod Parts
pub mod Suited
