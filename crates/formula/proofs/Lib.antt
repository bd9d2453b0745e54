pub mod Held
pub mod Marked
pub mod Marks
pub mod Values
pub mod Occurrences
pub mod Small
pub mod Truths
