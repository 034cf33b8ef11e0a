pub mod KeeperLemmas
pub mod TalkLemmas
