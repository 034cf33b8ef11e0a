pub mod KeptBooks
pub mod Private
