pub mod DigitLaws
pub mod ParseLaws
