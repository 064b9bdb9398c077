mod NamingLaws
mod ForceLaws
mod HandLaws
pub mod TakenLaws
