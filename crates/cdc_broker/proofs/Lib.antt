pub mod Accepted
pub mod Made
pub mod Marks
pub mod Requests
pub mod States
