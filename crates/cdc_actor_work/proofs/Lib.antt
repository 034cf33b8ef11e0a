pub mod Counted
pub mod PassedOn
pub mod Staying
