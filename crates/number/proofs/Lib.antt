pub mod NumberLaws
pub mod ByteLaws
pub mod MonthLaws
