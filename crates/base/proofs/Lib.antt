pub mod Walk
pub mod Answers
pub mod StdLists
pub mod StdPositions
