-- Lemmas on the connector as an actor of a run.
pub mod Counted
pub mod Failing
pub mod Histories
pub mod Messages
pub mod Receiving
pub mod Restarts
pub mod Rounds
pub mod Sessions
pub mod Steps
pub mod Taking
pub mod Turns
