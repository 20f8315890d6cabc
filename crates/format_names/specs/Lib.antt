pub mod Names
pub mod Candidates
pub mod ShortNames
