pub mod Loading
pub mod NewFile
pub mod Tables
