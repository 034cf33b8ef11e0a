pub mod Entries
mod Joined
mod DistinctNumbers
mod Settling
mod Stays
mod Steps
