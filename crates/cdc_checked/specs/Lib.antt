-- what has to be believed
pub mod Checked
pub mod Based
-- what a checker keeps
pub mod Standing
