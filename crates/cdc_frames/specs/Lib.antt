pub mod FrameParts
pub mod Frames
pub mod Laws
pub mod Records
