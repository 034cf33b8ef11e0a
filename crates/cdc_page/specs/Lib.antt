pub mod Events
pub mod Moves
pub mod Pages
pub mod Recordings
pub mod Steps
