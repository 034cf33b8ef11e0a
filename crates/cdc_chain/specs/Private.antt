-- What private contracts cite: a reader has to believe none of it.
pub mod Steps
