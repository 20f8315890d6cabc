pub mod SearchLaws
pub mod CallLaws
pub mod PhysicalLaws
pub mod ConversionLaws
