pub mod Meant
pub mod Rows
pub mod Longest
pub mod Check
