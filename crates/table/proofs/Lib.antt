pub mod Lengths
pub mod Whole
pub mod Tested
pub mod WriteBytes
