pub mod Judging
pub mod Tally
