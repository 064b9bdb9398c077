pub mod Finding
pub mod Handed
