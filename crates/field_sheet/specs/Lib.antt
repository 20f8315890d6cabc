pub mod Subtrees
pub mod Strict
pub mod Trees
pub mod Sheets
