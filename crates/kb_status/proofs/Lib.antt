pub mod BuiltLaws
pub mod KeptLaws
pub mod LineLaws
pub mod OrderLaws
pub mod SortLaws
pub mod StatusLaws
pub mod WantLaws
