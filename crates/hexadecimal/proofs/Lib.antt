pub mod DigitLaws
pub mod HexLaws
pub mod PartLaws
