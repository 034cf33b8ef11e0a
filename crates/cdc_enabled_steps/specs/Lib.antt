pub mod Enabled
pub mod Private
