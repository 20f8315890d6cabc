pub mod LeafLaws
pub mod CountedLaws
pub mod FormatLaws
pub mod ArmLaws
pub mod SizeLaws
