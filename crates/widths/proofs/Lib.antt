pub mod Counts
pub mod GapCosts
pub mod Gaps
pub mod LabelCount
