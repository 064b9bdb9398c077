pub mod Codes
pub mod Meant
