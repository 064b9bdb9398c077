pub mod Meant
pub mod Judged
pub mod Walk
pub mod Reading
