pub mod BrokerLemmas
mod Seated
pub mod SubscriberLemmas
pub mod Words
