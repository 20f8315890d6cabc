pub mod KindLaws
pub mod LeafLaws
pub mod Examples
