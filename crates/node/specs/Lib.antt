pub mod Names
pub mod Types
pub mod Info
pub mod Pieces
pub mod Nodes
