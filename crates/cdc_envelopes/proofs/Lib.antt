pub mod BodyLemmas
pub mod FrontLemmas
pub mod Members
pub mod PrintedLines
pub mod Untyped
pub mod Written
