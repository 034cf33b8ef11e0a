-- Lemmas on the ledger as an actor of a run.
pub mod Closed
pub mod Fails
pub mod Fields
pub mod Receipts
pub mod RequestReplies
pub mod Turns
