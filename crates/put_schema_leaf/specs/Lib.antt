pub mod Formats
pub mod Written
