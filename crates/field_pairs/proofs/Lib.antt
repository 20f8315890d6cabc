pub mod PairsLaws
pub mod ReservedLaws
pub mod MentionLaws
