-- Lemmas on a client as an actor of a run.
pub mod Equal
pub mod Fails
pub mod Fields
pub mod Talking
