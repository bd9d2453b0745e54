pub mod Found
pub mod Flat
pub mod Readers
pub mod Answers
