-- Definitions and lemmas that no public contract cites.
pub mod Rows
