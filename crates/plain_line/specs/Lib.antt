pub mod PlainLines
pub mod Begins
