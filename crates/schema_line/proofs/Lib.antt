pub mod FlagLaws
pub mod TextLaws
pub mod LineLaws
pub mod KnownLaws
pub mod WalkLaws
pub mod Examples
