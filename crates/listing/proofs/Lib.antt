pub mod Decimals
pub mod Numerals
pub mod Writing
pub mod Parts
pub mod Tables
pub mod Examples
