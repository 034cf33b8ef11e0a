pub mod OpenLemmas
pub mod ApartLemmas
pub mod IndexLemmas
pub mod FirstLemmas
pub mod KnownLemmas
pub mod StandLemmas
pub mod AuditLemmas
pub mod TextLemmas
mod Examples
mod ApartExamples
pub mod Words
