pub mod Closes
pub mod Contents
pub mod Requests
pub mod Responses
pub mod Tables
