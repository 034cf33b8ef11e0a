-- Lemmas on a subscriber as an actor of a run.
pub mod Arriving
pub mod Closing
pub mod Fails
pub mod Fields
pub mod Taking
