pub mod Answers
pub mod Book
pub mod Reception
pub mod SubscriberState
pub mod Lines
pub mod Steps
pub mod TakeErrors
pub use Rattle.cdc_types.specs.declared.accounts.Balances
