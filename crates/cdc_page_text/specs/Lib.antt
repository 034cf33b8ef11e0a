pub mod Reading
pub mod Strings
