pub mod UptoLaws
pub mod LeafLaws
pub mod TidyLaws
pub mod FormLaws
pub mod LineLaws
pub mod KindLaws
