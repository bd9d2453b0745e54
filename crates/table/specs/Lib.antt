pub mod Layout
pub mod WellFormed
pub mod Shown
pub mod Code
pub mod Twins
