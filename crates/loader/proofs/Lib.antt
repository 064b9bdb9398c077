pub mod FillLaws
pub mod UndoLaws
pub mod LoadLaws
