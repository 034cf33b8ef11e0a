-- Lemmas on the broker as an actor of a run.
pub mod Answered
pub mod Counted
pub mod Dealing
pub mod Failing
pub mod Fields
pub mod Finishing
pub mod Lanes
pub mod Linked
pub mod Places
pub mod Receiving
pub mod Serving
pub mod Subscribers
