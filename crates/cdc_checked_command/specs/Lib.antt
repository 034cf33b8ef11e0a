pub mod Books
pub mod Endings
pub mod Following
pub mod Resuming
pub mod Texts
pub mod JsonLines
pub mod Private
pub mod Quiet
