-- what has to be believed
pub mod Known
pub mod Settling
pub mod Expiries
pub mod EventShapes
pub mod Fields
pub mod Apart
pub mod Limits
pub mod Rooms
pub mod Rules
pub mod Foreign
pub mod Audits
pub mod Standing
pub mod Stops
pub mod Texts
-- private, except what `IsKnownOf` of Standing cites: for the code's own contracts
pub mod Checks
pub use Rattle.cdc_ledger.specs.Kinds
pub use Rattle.cdc_types.specs.Results
