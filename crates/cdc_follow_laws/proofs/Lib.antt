pub mod ChainBytes
mod ChainExamples
pub mod ChainLemmas
pub mod Holding
pub mod LateLemmas
