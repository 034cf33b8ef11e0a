pub mod Flags
pub mod Lines
pub mod Results
pub mod Shapes
pub mod Timestamps
pub mod Widths
pub mod Windows
