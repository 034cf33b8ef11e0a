pub mod Books
pub mod Endings
pub mod Following
pub mod JsonLines
pub mod Private
pub mod Quiet
pub mod Texts
