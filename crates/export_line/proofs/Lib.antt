pub mod ColumnLaws
pub mod StepLaws
pub mod BelowLaws
