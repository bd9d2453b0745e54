pub mod Run
pub mod Whole
pub mod Twins
pub mod Rows
pub mod Shown
