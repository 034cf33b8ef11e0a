pub mod Consuming
pub mod Endings
pub mod JsonLines
pub mod Kept
pub mod Texts
