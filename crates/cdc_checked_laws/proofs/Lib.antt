pub mod Members
pub mod Weights
pub mod Released
pub mod Steps
pub mod Applicable
pub mod Among
pub mod Kept
pub mod Missed
pub mod Prefix
pub mod Whole
pub mod Books
pub mod Redelivered
pub mod Closed
pub mod Baselines
pub mod Late
pub mod Bytes
pub mod Silent
mod Examples
