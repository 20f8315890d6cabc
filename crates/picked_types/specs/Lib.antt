pub mod Picks
pub mod Sheets
