pub mod ClientLemmas
mod ClientReplies
mod FixedOrders
pub mod LedgerLemmas
pub mod Seated
