pub mod IdsLaws
pub mod LineLaws
pub mod BeginLaws
