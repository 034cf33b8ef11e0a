-- what has to be believed
pub mod States
pub mod Saveable
pub mod Laws
pub mod Logs
-- private: what the code's own contracts cite
pub mod Rows
pub mod Parts
pub mod Records
