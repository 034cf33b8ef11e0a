pub mod Faults
pub mod Lines
pub mod Private
pub use Rattle.cdc_message.specs.Values
