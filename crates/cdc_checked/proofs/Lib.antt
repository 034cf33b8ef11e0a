pub mod StandLemmas
pub mod ExampleEvents
mod Examples
