pub mod CycleLaws
pub mod LeafLaws
pub mod InnerLaws
