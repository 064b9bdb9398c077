pub mod Entries
pub mod Fields
pub mod References
pub mod Tags
