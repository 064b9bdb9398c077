pub mod Past
pub mod Tidy
pub mod Passed
pub mod Kinds
