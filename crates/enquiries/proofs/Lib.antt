pub mod LineSeekLaws
pub mod WithinLaws
pub mod HandLaws
