pub mod PickLaws
pub mod SheetLaws
