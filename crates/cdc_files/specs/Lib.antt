pub mod Errors
pub mod Leftovers
