pub mod Marked
pub mod Binding
pub mod Slips
pub mod Neighbours
pub mod Counting
