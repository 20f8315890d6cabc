pub mod LeafText
pub mod FieldLeaves
