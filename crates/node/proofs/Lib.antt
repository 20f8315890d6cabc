pub mod NameLaws
pub mod LineLaws
pub mod TextLaws
pub mod InfoLaws
pub mod BeginLaws
pub mod NodeLaws
pub mod TypeLaws
