pub mod ListedLaws
pub mod BareLaws
