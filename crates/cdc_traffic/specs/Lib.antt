pub mod Answering
pub mod Following
pub mod Laws
pub mod Pasts
