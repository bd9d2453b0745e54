pub mod Rows
pub mod Turned
pub mod Bound
pub mod CodedTags
pub mod CodedWalk
