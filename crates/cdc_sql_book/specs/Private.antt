-- What the ghost members of private impls alone cite: a reader has to believe none of it.
pub mod Printing
pub mod Recorded
pub mod Writers
