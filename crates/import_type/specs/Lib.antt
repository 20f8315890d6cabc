pub mod TypeColumns
