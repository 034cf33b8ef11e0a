pub mod Lines
pub mod Expect
pub mod Checked
pub mod Printing
