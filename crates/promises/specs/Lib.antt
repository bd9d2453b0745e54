pub mod Words
pub mod Driving
pub mod Examples
