pub mod Noted
pub mod Reads
