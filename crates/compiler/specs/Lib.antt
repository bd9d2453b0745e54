pub mod Compiled
pub mod Twins
pub mod Rows
pub mod Shown
pub mod Code
