pub mod LevelLaws
pub mod SkipLaws
pub mod StrictLaws
pub mod ReadLaws
pub mod WalkLaws
pub mod SheetLaws
