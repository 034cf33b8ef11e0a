pub mod Drawings
pub mod Labels
pub mod Shapes
