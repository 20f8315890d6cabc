pub mod Lists
pub mod FieldColumns
