pub mod First
pub mod Rows
pub mod Stores
pub mod Bits
pub mod Refusals
