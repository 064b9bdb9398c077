pub mod Outcome
pub mod Cut
