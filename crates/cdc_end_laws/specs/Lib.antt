pub mod Cut
pub mod Polls
pub mod Said
pub mod Subscribers
pub mod Tries
