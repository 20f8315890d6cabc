pub mod DigitLaws
pub mod LeanLaws
pub mod ColumnLaws
pub mod SignLaws
pub mod Examples
pub mod PutSignLaws
pub mod WriteLaws
