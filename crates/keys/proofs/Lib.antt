pub mod FieldLaws
pub mod KeyLaws
pub mod PlaceLaws
pub mod RowLaws
