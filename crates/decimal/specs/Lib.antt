pub mod Digits
pub mod Column
