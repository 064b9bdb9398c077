pub mod Places
pub mod Order
pub mod Front
pub mod Parts
