pub mod Machine
pub mod Replies
