pub mod PrintLemmas
pub mod TextLemmas
pub mod CheckedTextLemmas
pub mod CheckedPrintLemmas
