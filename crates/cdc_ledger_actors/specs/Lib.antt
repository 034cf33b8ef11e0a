pub mod Client
pub mod Ledger
pub mod Orders
pub mod Seats
