pub mod RunningLaws
pub mod HeldLaws
pub mod ScanLaws
pub mod ReadLaws
