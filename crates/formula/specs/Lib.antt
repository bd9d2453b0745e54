pub mod Formula
pub mod Typed
pub mod Marks
pub mod Occurrences
pub mod Code
