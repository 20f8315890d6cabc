pub mod StageLaws
pub mod LineLaws
pub mod KnownLaws
pub mod BareLaws
