pub mod TextLaws
pub mod FirstByteLaws
pub mod CharacterLaws
pub mod CodeLaws
pub mod KeyLaws
