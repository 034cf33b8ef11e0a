pub mod Continuing
mod Ends
pub mod Named
