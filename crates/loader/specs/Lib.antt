pub mod Lent
pub mod Outcome
