pub mod Gates
pub mod Twins
pub mod Awaited
pub mod Labels
pub mod Code
