pub mod Bounds
mod Examples
pub mod Moves
pub mod Rings
pub mod Standing
pub mod Tags
pub mod Wanted
