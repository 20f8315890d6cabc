pub mod Trees
pub mod Sheets
