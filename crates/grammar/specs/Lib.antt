pub mod Bytes
pub mod Grammar
pub mod Rows
pub mod Twins
