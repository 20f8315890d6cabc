pub mod ColumnLaws
pub mod LengthLaws
