pub mod PutLaws
pub mod IdsLaws
pub mod LengthLaws
