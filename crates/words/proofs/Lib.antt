pub mod LaneLaws
pub mod RunLaws
pub mod DateLaws
