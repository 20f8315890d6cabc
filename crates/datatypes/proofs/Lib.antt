pub mod AtLaws
pub mod DtypeLaws
pub mod PhysicalLaws
