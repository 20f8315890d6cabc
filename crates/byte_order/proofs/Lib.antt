pub mod CompareLaws
pub mod HexOrderLaws
