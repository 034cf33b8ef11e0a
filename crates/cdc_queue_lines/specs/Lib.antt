pub mod Lines
pub mod Messages
pub mod Predecessors
pub mod Reading
pub mod Steps
