pub mod FieldLines
pub mod Stages
