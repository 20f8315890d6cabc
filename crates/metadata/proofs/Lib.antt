pub mod TextLaws
pub mod EntryLaws
pub mod PutLaws
pub mod KeepLaws
pub mod WalkLaws
pub mod MeaningLaws
pub mod SizeLaws
pub mod ColumnLaws
