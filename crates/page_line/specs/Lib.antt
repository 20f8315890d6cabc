pub mod PageLines
pub mod PageLeaves
pub mod Begins
