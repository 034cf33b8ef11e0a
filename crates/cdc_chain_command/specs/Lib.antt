pub mod Endings
pub mod Logs
pub mod Printing
pub mod Private
pub mod Resuming
pub mod States
