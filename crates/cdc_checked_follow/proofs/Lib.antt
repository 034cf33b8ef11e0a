pub mod CountLemmas
pub mod StandLemmas
pub mod StreamLemmas
pub mod TurnLemmas
