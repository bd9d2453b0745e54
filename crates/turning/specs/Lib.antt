pub mod Tags
pub mod Turning
pub mod Code
