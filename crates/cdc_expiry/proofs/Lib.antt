pub mod Apart
pub mod InOrder
pub mod Least
pub mod Lists
pub mod Order
pub mod Taken
