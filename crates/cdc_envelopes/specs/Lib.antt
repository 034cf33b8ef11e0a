pub mod Envelopes
pub mod Private
pub mod Texts
