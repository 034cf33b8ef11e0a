pub mod Fields
pub mod Frames
pub mod Laws
pub mod Reading
