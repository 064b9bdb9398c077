pub mod Places
pub mod Counts
pub mod Ordered
pub mod Changes
