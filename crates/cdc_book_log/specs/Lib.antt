pub mod Crashes
pub mod Details
pub mod Logs
pub mod Places
pub mod Replay
pub mod Tracked
pub mod Tracking
