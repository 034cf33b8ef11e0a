pub mod Books
pub mod Following
pub mod Private
pub mod Recording
