pub mod Terms
pub mod Answer
pub mod Refusals
pub mod Laid
pub mod First
pub mod Rows
pub mod Texts
pub mod Code
