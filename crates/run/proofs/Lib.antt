pub mod Conform
pub mod Rows
pub mod Local
pub mod Onward
