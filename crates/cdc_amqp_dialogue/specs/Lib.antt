pub mod Deliveries
pub mod Dialogues
pub mod Laws
pub mod Serving
pub mod Steps
pub mod Taking
pub mod Worlds
