pub mod PutLines
pub mod Changes
pub mod Begins
