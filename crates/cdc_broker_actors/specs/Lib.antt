pub mod Broker
pub mod Seats
pub mod Subscriber
