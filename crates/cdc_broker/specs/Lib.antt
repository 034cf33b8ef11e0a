pub mod Backlogs
pub mod Broker
pub mod Cursors
pub mod Kept
pub mod Packets
pub mod Queues
pub mod Requests
