-- What the contracts of private functions alone cite: a reader has to believe none of it.
pub mod Headers
pub mod Members
