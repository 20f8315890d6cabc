pub mod FormatLaws
pub mod PutLaws
pub mod Examples
