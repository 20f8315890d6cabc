pub mod Parts
pub mod Formats
pub mod Dictionary
