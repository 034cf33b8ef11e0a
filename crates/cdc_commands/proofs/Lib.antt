mod Examples
pub mod HeldLaws
pub mod FeedLemmas
pub mod OutputLemmas
pub mod HalfwayLemmas
pub mod SimulationLemmas
pub mod SimulationReached
pub mod TakerLemmas
pub mod TextLemmas
pub mod ReadingLemmas
pub mod ShownWords
pub mod Terms
