pub mod Meant
pub mod Codes
pub mod Characters
