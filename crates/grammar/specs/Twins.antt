pub mod Reader
pub mod Places
pub mod Reading
