-- what has to be believed
pub mod Checking
pub mod Standing
pub mod Turns
pub mod Counts
pub mod Streams
