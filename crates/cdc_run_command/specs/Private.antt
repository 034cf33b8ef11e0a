-- What the contracts of private functions alone cite: a reader has to believe none of it.
pub mod Faults
pub mod Merging
pub mod Diagnostics
