pub mod FrameLaws
pub mod TrialLaws
