pub mod Codes
pub mod ListText
pub mod Reads
pub mod Answers
pub mod Moving
pub mod Reading
