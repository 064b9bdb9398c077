pub mod PassedLaws
pub mod KeyLaws
pub mod StartLaws
pub mod TagLaws
