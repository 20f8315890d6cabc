pub mod Formats
pub mod Counted
pub mod LineFormat
