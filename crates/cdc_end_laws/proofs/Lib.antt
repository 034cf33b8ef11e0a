mod Closing
mod Cutting
mod Lacking
mod Polled
mod Trying
pub mod Words
