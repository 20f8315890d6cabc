pub mod PartLaws
pub mod IndexLaws
pub mod ReadLaws
