pub mod LineLaws
pub mod BelowLaws
