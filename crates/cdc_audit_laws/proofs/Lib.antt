pub mod OfStd
pub mod OfTypes
pub mod OfLedger
pub mod OfAudit
pub mod Cases
pub mod Shown
pub mod Premises
pub mod Following
pub mod Rooms
pub mod Streams
pub mod Runs
pub mod Sums
pub mod Changes
pub mod Pulses
pub mod Keeping
pub mod Requests
pub mod Created
pub mod Kept
pub mod Entries
pub mod Ledgers
pub mod Traces
pub mod Flags
pub mod Coming
pub mod Plain
pub mod Posting
pub mod Made
pub mod Entering
pub mod Expiry
pub mod Soonest
pub mod Turns
pub mod Running
pub mod Modes
pub mod Plan
pub mod Openings
pub mod Opening
pub mod Walk
pub mod Known
pub mod Alone
pub mod Unseen
pub mod Completing
pub mod Soundness
pub mod Whole
pub mod Links
pub mod Gaps
pub mod Accepted
mod ExampleEvents
mod Examples
mod SoundExamples
mod TurnExamples
mod LinkExamples
