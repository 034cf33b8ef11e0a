pub mod Pieces
pub mod Readers
