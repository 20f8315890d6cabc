pub mod NameLaws
pub mod HeadLaws
pub mod ShortLaws
pub mod CandidateLaws
