pub mod TableLaws
pub mod KindLaws
pub mod LongestLaws
pub mod BeginsLaws
pub mod PlaceLaws
pub mod CheckLaws
pub mod PassLaws
