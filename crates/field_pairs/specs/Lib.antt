pub mod Pairs
pub mod Reserved
