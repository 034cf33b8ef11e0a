pub mod Chains
pub mod Laws
pub mod Lines
pub mod Private
