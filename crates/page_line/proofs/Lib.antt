pub mod PutLaws
pub mod PageLaws
pub mod BeginLaws
