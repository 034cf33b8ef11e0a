-- what a reader has to believe: public clauses cite it
pub mod Closed
pub mod Errors
pub mod Laws
pub mod Moved
pub mod Moves
pub mod Next
pub mod Parts
pub mod Refusals
pub mod Stands
pub mod Tries
pub mod Worlds
-- private: what private contracts, proofs and worked runs alone cite
pub mod Orderly
pub mod Runs
pub mod Served
pub mod Turns
pub use Rattle.cdc_broker.specs.Cursors
pub use Rattle.cdc_broker.specs.Packets
pub use Rattle.cdc_publisher.specs.Courses
pub use Rattle.cdc_publisher.specs.declared.errors.StartError
