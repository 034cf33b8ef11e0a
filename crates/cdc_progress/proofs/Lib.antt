mod Examples
pub mod FileBytes
pub mod TextLemmas
