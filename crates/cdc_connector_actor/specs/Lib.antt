pub mod Connector
pub mod Seats
