pub mod JudgingLaws
pub mod TallyLaws
