pub mod FieldLaws
pub mod HeadLaws
pub mod NumberLaws
pub mod EntryLaws
pub mod TagLaws
pub mod LineLaws
pub mod LengthLaws
pub mod ReferenceLaws
