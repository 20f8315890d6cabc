pub mod BlockLaws
pub mod WalkLaws
pub mod MergeLaws
pub mod ColumnLaws
pub mod SizeLaws
