pub mod Entry
pub mod PairReading
pub mod Pairs
pub mod Reading
