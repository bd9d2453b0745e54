pub mod Conform
