pub mod Change
pub mod Changes
pub mod Counts
pub mod Fit
pub mod Groups
pub mod PatchPaths
pub mod Text
pub mod Valid
