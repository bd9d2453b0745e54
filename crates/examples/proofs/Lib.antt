pub mod Puts
pub mod Room
