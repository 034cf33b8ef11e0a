pub mod Endings
pub mod Keeping
pub mod Lines
pub mod Saving
pub mod Taking
