pub mod FindLaws
pub mod HandLaws
