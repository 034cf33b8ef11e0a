pub mod Auditing
pub mod Duplicates
pub mod Endings
pub mod JsonLines
pub mod Private
pub mod States
pub mod Texts
