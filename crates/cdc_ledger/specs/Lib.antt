-- what has to be believed
pub mod Answers
pub mod Balances
pub mod BatchErrors
pub mod Chains
pub mod Changes
pub mod Due
pub mod Events
pub mod Filling
pub mod Fits
pub mod History
pub mod Kinds
pub mod Sound
pub mod Submit
pub mod Verdict
-- what only private contracts and the laws cite, except `no_balances` of Accounts, which the rules of an audit cite
pub mod Accounts
pub mod Contents
pub mod Effects
pub mod Endings
pub mod Follows
pub mod Movements
pub mod OpenTriples
pub mod PlacesById
pub mod Recorded
pub mod Stops
pub mod Tables
pub mod EmittedHistory
