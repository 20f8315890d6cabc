pub mod TableLaws
pub mod AsciiLaws
pub mod StateLaws
